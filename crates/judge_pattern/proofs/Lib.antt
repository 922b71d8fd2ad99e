pub mod Lists
mod Ends
mod Laws
mod FirstAndLast
pub mod Relation
