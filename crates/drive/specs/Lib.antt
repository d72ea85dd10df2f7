pub mod Course
pub mod Drive
pub mod Due
pub mod Examples
pub mod Step
