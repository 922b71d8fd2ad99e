pub mod Element
pub mod Places
pub mod Best
pub mod Cells
