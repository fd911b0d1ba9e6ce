-- The laws of the crate `laws_heads`.
pub mod Givens
pub mod Every
pub mod Replaying
pub mod Growing
pub mod Loads
pub mod Third
pub mod Second
pub mod Refutes
