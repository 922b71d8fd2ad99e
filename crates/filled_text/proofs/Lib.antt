pub mod Texts
pub mod Loops
