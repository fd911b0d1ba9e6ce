-- The definitions of the crate `laws_pairs`.
pub mod Compared
pub mod Handed
pub mod Text
pub mod Files
pub mod Ours
pub mod OurText
pub mod Wrong
pub mod Rows
