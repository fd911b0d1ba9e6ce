-- The laws of the crate `laws_outcome`.
pub mod Each
