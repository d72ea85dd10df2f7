pub mod Examples
pub mod Good
pub mod Moves
pub mod Runs
pub mod Valid
pub mod Whole
