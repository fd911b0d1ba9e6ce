-- The definitions of the crate `step_kinds`.
pub mod Answers
pub mod Changes
pub mod Finish
pub mod Plain
pub mod PublicPromises
