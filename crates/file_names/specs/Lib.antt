pub mod Naming
pub mod Separate
pub mod Below
pub mod Mapping
pub mod Numbered
