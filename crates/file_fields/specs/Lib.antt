pub mod Fields
pub mod Listed
pub mod Values
pub mod Places
pub mod Stretches
