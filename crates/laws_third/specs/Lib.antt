-- The definitions of the crate `laws_third`.
pub mod Crossed
pub mod Banded
pub mod Editions
pub mod Allowed
pub mod Stages
pub mod Demand
pub mod Laws
