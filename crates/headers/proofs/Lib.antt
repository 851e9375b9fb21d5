-- What is proved of the rules, in reading order.
pub mod Laws
pub mod Bit28
pub mod Examples
