-- The definitions of the crate `laws_witness`.
pub mod Days
pub mod Rows
pub mod Clauses
pub mod Editions
