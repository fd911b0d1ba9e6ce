-- The crate's definitions.
pub mod Rows
pub mod Packed
pub mod Theorems
