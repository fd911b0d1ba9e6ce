-- What the lines' contracts cite: a number's decimal text, a line of numbers, and what writing a text into a lent part comes to.
pub mod Decimal
pub mod Text
pub mod Writing
pub mod PublicPromises
