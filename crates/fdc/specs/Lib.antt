pub mod Answer
pub mod Calls
pub mod Commands
pub mod Data
pub mod Record
pub mod Registers
pub mod Reset
pub mod Ticks
