-- The laws of the crate `laws_account`.
pub mod Past
mod Rule
pub mod Choices
mod Dogs
mod Values
pub mod Fields
pub mod Ran
mod Found
pub mod Sharing
pub mod Banding
pub mod Judging
pub mod Settling
mod Raising
mod Starting
mod Refusing
pub mod Powering
mod Stepping
pub mod Agreeing
pub mod Logging
pub mod Beginning
pub mod Looking
pub mod Reports
