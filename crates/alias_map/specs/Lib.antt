-- What the crate's contracts cite, and what its theorems speak of, in reading order.
pub mod Rules
pub mod Words
pub mod Answers
pub mod Parts
pub mod Laws
pub mod Sound
pub mod Order
pub mod Lists
pub mod Examples
