-- The laws of the crate `step_event`.
mod Clocks
mod Events
pub mod Numbered
pub mod Settles
pub mod Observes
pub mod Keeps
mod Walkings
pub mod Turning
pub mod Joining
pub mod Moves
pub mod Resting
pub mod Playing
mod Settled
pub mod Contracts
