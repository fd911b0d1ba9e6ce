-- The definitions of the crate `report_pages`.
pub mod Text
pub mod PublicPromises
