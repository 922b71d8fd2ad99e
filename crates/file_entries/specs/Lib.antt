pub mod Keys
pub mod Weights
pub mod Principals
pub mod Passed
