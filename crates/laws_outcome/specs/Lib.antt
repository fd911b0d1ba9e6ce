-- The definitions of the crate `laws_outcome`.
pub mod Calls
