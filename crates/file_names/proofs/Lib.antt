pub mod Seen
pub mod Namings
pub mod Entering
pub mod Apart
pub mod Scanned
pub mod Looked
pub mod Mapped
