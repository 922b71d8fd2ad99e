pub mod Looking
pub mod Worded
pub mod Hashing
pub mod Writing
pub mod OfField
pub mod LookedUp
