-- The laws of the crate `c_list`.
pub mod Lengths
pub mod Again
