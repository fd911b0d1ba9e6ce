-- The definitions of the crate `step_text`.
pub mod Runs
pub mod Prints
pub mod PublicPromises
pub mod Promises
