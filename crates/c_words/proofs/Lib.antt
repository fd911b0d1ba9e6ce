-- The laws of the crate `c_words`.
pub mod WordLaws
pub mod Sames
mod Turns
pub mod Contracts
