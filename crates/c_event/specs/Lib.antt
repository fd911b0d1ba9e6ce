-- The definitions of the crate `c_event`.
pub mod Given
pub mod PublicPromises
pub mod Promises
