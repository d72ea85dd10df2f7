pub mod Back
pub mod Bytes
pub mod Cycle
pub mod Flat
pub mod Places
