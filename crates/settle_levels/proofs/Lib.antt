-- The laws of the crate.
pub mod Least
pub mod Points
pub mod Rest
pub mod Shorts
