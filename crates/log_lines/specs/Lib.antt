pub mod Gather
pub mod Hex
pub mod Line
pub mod Words
