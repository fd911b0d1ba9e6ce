-- The laws of the crate `step_turns`.
pub mod Fitting
pub mod Beginning
pub mod Sampling
