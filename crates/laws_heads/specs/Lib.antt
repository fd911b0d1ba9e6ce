-- The definitions of the crate `laws_heads`.
pub mod Given
pub mod Moved
pub mod Third
pub mod Second
pub mod Growing
pub mod Wrong
