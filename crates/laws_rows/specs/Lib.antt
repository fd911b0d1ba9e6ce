-- The definitions of the crate `laws_rows`.
pub mod Cases
pub mod Rows
pub mod Requested
pub mod Started
