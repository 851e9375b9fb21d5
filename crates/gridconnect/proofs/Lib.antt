-- What is proved of the rules, in reading order.
pub mod Examples
pub mod Pieces
pub mod Writing
pub mod DigitLaws
pub mod Reading
pub mod Raised
pub mod Laws
