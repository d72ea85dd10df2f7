pub mod DriveLaws
pub mod Examples
pub mod StepLaws
