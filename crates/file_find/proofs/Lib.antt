pub mod Finding
pub mod Numbers
pub mod Example
