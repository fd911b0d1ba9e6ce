-- The crate's definitions.
pub mod Values
