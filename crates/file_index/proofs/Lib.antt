pub mod Numbers
pub mod Steps
pub mod Links
pub mod Inserted
pub mod Ways
pub mod Known
