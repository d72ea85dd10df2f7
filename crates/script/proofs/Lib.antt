pub mod DecimalLaws
pub mod Examples
pub mod GatherLaws
pub mod StretchLaws
