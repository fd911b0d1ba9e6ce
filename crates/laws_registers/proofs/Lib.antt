-- The laws of the crate `laws_registers`.
pub mod Bytes
mod Folds
mod Stores
mod Places
mod Digits
mod Mates
mod OneRegister
mod Values
mod Gets
mod HeldAfter
mod MasksAfter
mod Words
pub mod ReadBytes
pub mod Fields
pub mod FieldRuns
pub mod Flags
pub mod Resets
pub mod Alike
pub mod Splits
mod MaskBits
pub mod Masks
pub mod ReadsBack
pub mod Settled
pub mod Acts
