-- The crate's definitions.
pub mod Writes
pub mod Resets
pub mod Theorems
pub mod PublicPromises
