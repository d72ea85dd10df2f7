pub mod Examples
pub mod First
pub mod Format
pub mod Kept
pub mod ReadId
pub mod Step
