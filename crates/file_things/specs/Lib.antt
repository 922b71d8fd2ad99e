pub mod Things
pub mod Writable
