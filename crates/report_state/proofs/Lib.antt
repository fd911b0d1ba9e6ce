-- The laws of the crate.
pub mod Reports
pub mod Contracts
