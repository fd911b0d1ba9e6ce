-- The definitions of the crate `step_flags`.
pub mod Expiry
pub mod Edges
