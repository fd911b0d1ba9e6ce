-- The crate's laws.
pub mod Puts
pub mod Maps
pub mod Fields
pub mod Gathers
pub mod Sound
pub mod Taken
pub mod Restores
pub mod Turns
pub mod Gaps
