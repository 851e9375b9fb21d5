-- What the crate's contracts cite and what is proved of it, in reading order.
pub mod Rules
pub mod Sent
pub mod Answers
pub mod Concerns
