pub mod Sorts
pub mod Classed
