-- The crate's laws.
pub mod Sums
pub mod FlagRows
pub mod Contracts
