pub mod Keys
pub mod Putting
pub mod Writing
pub mod Sinks
pub mod Lines
pub mod Omitted
