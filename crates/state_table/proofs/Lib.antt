-- The crate's laws.
pub mod Tested
pub mod Unpacked
pub mod Turns
pub mod Listed
pub mod Parts
pub mod Whole
