pub mod Box
pub mod Head
pub mod Place
pub mod Ready
pub mod Request
pub mod Serve
