-- The definitions of the crate `laws_format`.
pub mod Format
pub mod Unreadable
pub mod Readers
pub mod Ours
pub mod Deciding
pub mod Wrong
pub mod Rows
pub mod Older
