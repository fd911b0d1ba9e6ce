-- The definitions of the crate `c_words`.
pub mod Words
pub mod Same
pub mod PublicPromises
pub mod Promises
