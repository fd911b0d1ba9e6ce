-- The laws of the crate `c_calls`.
mod Lands
pub mod Leaves
pub mod Lengths
pub mod Numbered
mod Writes
pub mod Contracts
