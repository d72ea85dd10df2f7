pub mod Examples
pub mod ListLaws
pub mod PartLaws
pub mod RangeLaws
pub mod SoundLaws
