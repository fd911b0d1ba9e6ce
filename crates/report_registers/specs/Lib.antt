-- The crate's definitions.
pub mod Reads
pub mod Theorems
pub mod PublicPromises
