-- The crate's laws.
mod Masks
mod Turns
pub mod Settings
pub mod Steps
pub mod Keeps
pub mod Middles
pub mod Rows
pub mod Contracts
