pub mod Things
pub mod Words
pub mod Elements
