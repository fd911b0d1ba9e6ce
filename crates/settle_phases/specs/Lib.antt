-- The definitions of the crate.
pub mod Order
pub mod Cycles
pub mod After
pub mod Theorems
