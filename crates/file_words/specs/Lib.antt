pub mod Looking
pub mod Hashed
pub mod Words
pub mod Files
