pub mod Fields
pub mod Answers
pub mod Agree
pub mod Small
pub mod Room
pub mod Example
