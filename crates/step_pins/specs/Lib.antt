-- The definitions of the crate `step_pins`.
pub mod Codes
pub mod Spans
pub mod Theorems
