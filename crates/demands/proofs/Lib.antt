pub mod Answered
pub mod Exactly
pub mod Before
pub mod Demands
