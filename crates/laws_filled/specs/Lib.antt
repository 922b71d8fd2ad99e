pub mod Fields
pub mod Clean
