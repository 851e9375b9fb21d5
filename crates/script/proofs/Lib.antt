-- What is proved of the rules, in reading order.
pub mod Text
pub mod Forms
pub mod Scripts
pub mod Turns
pub mod Room
pub mod Examples
