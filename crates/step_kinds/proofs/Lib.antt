-- The laws of the crate `step_kinds`.
mod Writing
pub mod Contracts
