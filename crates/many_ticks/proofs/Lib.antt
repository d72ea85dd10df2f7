pub mod RunLaws
pub mod SectorLaws
pub mod StreamLaws
