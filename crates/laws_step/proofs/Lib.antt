-- The laws of the crate `laws_step`.
pub mod InRanges
mod RunRows
pub mod Given
pub mod Powered
pub mod Observed
pub mod Exchanged
pub mod Sums
pub mod TakenFlags
pub mod Editions
