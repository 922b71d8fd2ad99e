pub mod Plain
pub mod Splits
