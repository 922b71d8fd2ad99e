pub mod Wrote
pub mod Omitted
pub mod Sinks
pub mod Pages
