-- The crate's laws.
pub mod Fields
pub mod Order
pub mod Leaves
pub mod Keeps
pub mod Said
pub mod Contracts
