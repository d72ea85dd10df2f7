pub mod Follow
pub mod Read
pub mod Result
pub mod Search
pub mod Track
pub mod Write
