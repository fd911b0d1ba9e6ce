-- Laws of decimal texts, of lines, and of what is written into a lent part.
pub mod Parts
pub mod Decimals
pub mod Digits
pub mod Turns
pub mod ReadBack
pub mod Sizes
pub mod Outcomes
pub mod Rows
pub mod Contracts
