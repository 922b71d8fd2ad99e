pub mod Walk
pub mod Faults
pub mod Reading
