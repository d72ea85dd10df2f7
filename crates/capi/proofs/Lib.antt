pub mod BlocksLaws
pub mod KeepLaws
pub mod WordLaws
