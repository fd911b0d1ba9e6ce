-- The laws of the crate `laws_witness`.
pub mod Accepting
pub mod Rows
pub mod Clauses
pub mod Editions
