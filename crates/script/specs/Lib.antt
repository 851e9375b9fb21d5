-- What the crate's contracts cite, and what its theorems speak of, in reading order.
pub mod Rules
pub mod Answers
pub mod Text
pub mod Forms
pub mod Scripts
pub mod Turns
