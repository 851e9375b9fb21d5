-- What the crate's contracts cite, and what its theorems speak of, in reading order.
pub mod Claim
pub mod Sharp
pub mod EachNode
pub mod Single
pub mod NodeIds
pub mod Sight
pub mod Bus
pub mod Bit28
pub mod WarmStarts
pub mod AllBack
