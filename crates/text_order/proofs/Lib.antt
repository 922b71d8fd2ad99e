pub mod Names
pub mod Ascent
pub mod Laws
