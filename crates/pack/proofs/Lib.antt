pub mod BackLaws
pub mod CycleLaws
pub mod FlatLaws
pub mod PutLaws
pub mod RowLaws
