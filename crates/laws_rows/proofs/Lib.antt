-- The laws of the crate `laws_rows`.
pub mod Holds
pub mod Started
