-- The laws of the crate `step_pins`.
mod Lowest
mod Overlaps
pub mod Places
pub mod Pins
