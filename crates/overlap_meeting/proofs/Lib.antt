pub mod Common
pub mod Best
pub mod Order
pub mod Needed
mod Cells
mod Ends
mod Writing
