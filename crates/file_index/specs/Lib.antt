pub mod Words
pub mod Buckets
pub mod Maps
