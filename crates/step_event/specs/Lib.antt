-- The definitions of the crate `step_event`.
pub mod Clock
pub mod Steps
pub mod Theorems
pub mod Walks
pub mod Pages
pub mod Wholes
pub mod Rests
pub mod Replays
pub mod PublicPromises
