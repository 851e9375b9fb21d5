-- What the crate's contracts cite and what is proved of it, in reading order.
pub mod Rules
pub mod Sheet
pub mod Puts
pub mod Table
pub mod Hex
pub mod Decimal
