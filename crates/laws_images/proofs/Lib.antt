-- The laws of the crate `laws_images`.
mod Fitting
pub mod Holding
pub mod Loading
pub mod Stepping
pub mod Walking
mod Giving
pub mod Keeping
