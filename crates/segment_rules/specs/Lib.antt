-- What is to be believed of the segment, and what its theorems speak of, in reading order.
pub mod Rules
pub mod Looks
pub mod Limits
pub mod Examples
pub mod ListsBut28
pub mod Turns
pub mod WarmStarts
