-- The laws of the crate `c_image`.
pub mod ImageLaws
mod Stores
pub mod Contracts
