pub mod OnlyAll
pub mod Lowest
pub mod Beginnings
pub mod Chains
