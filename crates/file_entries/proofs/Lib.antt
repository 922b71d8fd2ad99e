pub mod Omitted
pub mod Unbound
pub mod Weights
pub mod Principals
pub mod Twins
