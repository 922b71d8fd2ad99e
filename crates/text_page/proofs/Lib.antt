pub mod Steps
pub mod Walking
pub mod Texts
