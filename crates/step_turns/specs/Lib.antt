-- The definitions of the crate `step_turns`.
pub mod Ranges
pub mod Coded
pub mod Turns
pub mod Begins
pub mod Sampled
pub mod Promises
