-- The laws of the crate.
pub mod Shares
pub mod Firsts
pub mod Joining
pub mod Held
