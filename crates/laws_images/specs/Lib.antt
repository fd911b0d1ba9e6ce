-- The definitions of the crate `laws_images`.
pub mod Promises
