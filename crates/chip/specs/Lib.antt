pub mod Commands
pub mod Examples
pub mod Fifo
pub mod Next
pub mod Refusals
pub mod Stepping
