-- The laws of the crate `laws_pairs`.
pub mod Starting
pub mod Comparing
pub mod Handing
pub mod Texts
pub mod Printing
pub mod Examples
pub mod Refutes
