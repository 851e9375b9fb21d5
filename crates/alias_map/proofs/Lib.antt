-- What is proved of the rules, in reading order; below it what the proofs of functions share.
pub mod Bit28
pub mod Laws
pub mod Sound
pub mod Order
pub mod Lists
pub mod Examples
pub mod Hits
pub mod Places
pub mod Rows
pub mod Given
