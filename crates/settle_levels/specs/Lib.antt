-- The definitions of the crate.
pub mod Clamps
pub mod Comparators
pub mod Voltage
pub mod Theorems
