pub mod Clash
pub mod Told
