-- The definitions of the crate.
pub mod Bits
pub mod Permission
pub mod Limits
pub mod Ending
