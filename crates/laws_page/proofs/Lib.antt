pub mod Steps
pub mod Theorems
pub mod Order
pub mod Right
pub mod ListText
pub mod Keys
pub mod Answered
