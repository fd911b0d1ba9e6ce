-- The definitions of the crate `c_list`.
pub mod Places
pub mod Numbers
pub mod Back
pub mod Promises
