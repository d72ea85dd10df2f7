pub mod Change
pub mod Decimal
pub mod Line
pub mod Tally
