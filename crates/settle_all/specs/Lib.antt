-- The definitions of the crate.
pub mod Gather
pub mod Settle
pub mod EndTested
pub mod Theorems
