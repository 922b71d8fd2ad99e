pub mod Behind
pub mod Walked
pub mod Contexts
pub mod Granted
pub mod Placed
pub mod Entries
pub mod Keys
