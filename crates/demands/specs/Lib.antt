pub mod Answered
pub mod Before
