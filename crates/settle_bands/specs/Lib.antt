-- The definitions of the crate.
pub mod Thresholds
pub mod Effect
pub mod Joined
pub mod Holding
pub mod Firsts
pub mod Joining
pub mod Held
