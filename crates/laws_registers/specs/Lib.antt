-- The definitions of the crate `laws_registers`.
pub mod Bytes
pub mod Fields
pub mod Flags
pub mod Resets
pub mod Alike
pub mod Splits
pub mod Masks
pub mod ReadsBack
pub mod Settled
pub mod Acts
