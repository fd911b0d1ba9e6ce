-- The definitions of the crate `c_image`.
pub mod Images
pub mod PublicPromises
pub mod Promises
