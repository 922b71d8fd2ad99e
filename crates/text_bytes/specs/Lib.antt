pub mod Classes
pub mod Marks
