pub mod Walk
pub mod Laws
pub mod Reading
pub mod Scalars
