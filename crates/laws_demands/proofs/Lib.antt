-- The laws of the crate `laws_demands`.
mod Answers
mod Prints
mod Logs
mod Texts
mod Against
mod Places
pub mod Deciding
mod Days
pub mod HoldsFirst
pub mod HoldsSecond
pub mod HoldsThird
pub mod Only
pub mod Parts
pub mod Operators
pub mod EndTest
pub mod BasePoint
pub mod Older
pub mod Soldered
pub mod Thermistors
pub mod Editions
pub mod Sides
pub mod Fives
pub mod Typed
mod Invented
pub mod RefutesFirst
pub mod RefutesSecond
pub mod RefutesThird
