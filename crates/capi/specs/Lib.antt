pub mod Blocks
pub mod Calls
pub mod Judge
pub mod Word
