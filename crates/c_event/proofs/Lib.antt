-- The laws of the crate `c_event`.
mod Givens
pub mod Answers
pub mod Contracts
