-- The laws of the crate.
pub mod Again
pub mod Clean
pub mod Restarts
