pub mod Spacing
pub mod Low
pub mod Pages
pub mod Ruling
pub mod Finding
pub mod Agree
pub mod Asked
