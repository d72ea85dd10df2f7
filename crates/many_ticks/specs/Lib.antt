pub mod Run
pub mod Sector
pub mod Stream
