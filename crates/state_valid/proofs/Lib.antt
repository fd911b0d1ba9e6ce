-- The crate's laws.
pub mod Wholes
pub mod Bounds
pub mod Begins
