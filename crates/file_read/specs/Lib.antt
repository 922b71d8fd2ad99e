pub mod Readable
pub mod Ruled
pub mod Numbered
pub mod Lent
