pub mod DiskLaws
pub mod Examples
pub mod LayoutLaws
pub mod ListLaws
pub mod MarkLaws
pub mod StoreLaws
pub mod TestLaws
