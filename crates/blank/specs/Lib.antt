pub mod Blank
pub mod Examples
pub mod Parts
pub mod Statements
