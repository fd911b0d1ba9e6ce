-- The crate's definitions.
pub mod Words
pub mod Held
