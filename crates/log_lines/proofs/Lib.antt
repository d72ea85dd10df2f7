pub mod Examples
pub mod GatherLaws
pub mod HexLaws
pub mod WordLaws
