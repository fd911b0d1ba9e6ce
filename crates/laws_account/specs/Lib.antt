-- The definitions of the crate `laws_account`.
pub mod History
pub mod Held
pub mod Valued
pub mod Bands
pub mod Judged
pub mod Cycles
pub mod Flagged
pub mod Reported
pub mod Refused
pub mod States
pub mod Runs
pub mod Looked
