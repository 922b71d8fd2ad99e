pub mod Found
pub mod Placed
pub mod Answered
pub mod Agree
