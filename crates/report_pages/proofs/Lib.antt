-- The laws of the crate `report_pages`.
mod Writing
pub mod Contracts
