-- The definitions of the crate.
pub mod Report
pub mod Lines
pub mod Stats
pub mod Theorems
pub mod PublicPromises
