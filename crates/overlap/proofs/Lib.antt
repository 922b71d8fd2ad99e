pub mod Clash
mod Words
mod Pairs
pub mod Reporting
pub mod Agree
mod Two
pub mod Longest
pub mod Trials
