-- The laws of the crate `laws_format`.
mod Raws
pub mod Formats
pub mod NumbersRefused
mod RawsRefused
pub mod RecordsRefused
pub mod KindsListed
pub mod Keeping
pub mod Only
mod NumbersDecided
pub mod ItemsDecided
pub mod RecordsDecided
pub mod RecordsBegun
pub mod OnePlace
pub mod NumberDeciding
pub mod Deciding
pub mod Logs
pub mod Examples
pub mod Older
pub mod Refutes
