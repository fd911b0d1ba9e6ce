-- The laws of the crate `step_text`.
mod Heads
mod Sizes
mod Longs
mod Places
pub mod Printing
pub mod Contracts
