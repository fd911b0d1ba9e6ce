-- The definitions of the crate `laws_step`.
pub mod Ranged
pub mod RunRows
pub mod Rows
pub mod Theorems
pub mod Powered
pub mod Observed
pub mod Editions
