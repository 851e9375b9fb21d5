-- What is proved of the rules, in reading order.
pub mod Examples
pub mod LimitLaws
pub mod Others
pub mod Passed
pub mod ListsBut28
pub mod Turns
pub mod WarmStarts
