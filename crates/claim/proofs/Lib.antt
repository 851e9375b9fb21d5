-- What is proved of the rules, in reading order.
pub mod Claim
pub mod Sharp
pub mod Turns
pub mod Single
pub mod Runs
pub mod NodeIds
pub mod Sight
pub mod Bus
pub mod Bit28
pub mod WarmStarts
pub mod AllBack
