pub mod Examples
pub mod Fault
pub mod Group
pub mod Judge
pub mod PlaceOf
pub mod Statements
pub mod Twice
pub mod Verdict
