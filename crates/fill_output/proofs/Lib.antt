pub mod Decimals
pub mod Program
pub mod NeverThirty
pub mod Agree
