-- The definitions of the crate `c_calls`.
pub mod Landing
pub mod Playing
pub mod Replaying
pub mod Rules
pub mod Showing
pub mod Writing
pub mod Comparing
pub mod PublicPromises
pub mod Promises
