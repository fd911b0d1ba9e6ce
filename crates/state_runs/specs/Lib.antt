-- The definitions of the crate `state_runs`.
pub mod Bytes
pub mod Registers
pub mod Runs
pub mod Theorems
pub mod PublicPromises
