-- The laws of the crate.
pub mod Above
pub mod Alone
pub mod Below
pub mod Charged
pub mod EndTested
pub mod Ends
pub mod Once
pub mod Rules
