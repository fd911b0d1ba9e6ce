-- The crate's definitions.
pub mod Holds
