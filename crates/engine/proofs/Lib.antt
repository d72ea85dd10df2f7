pub mod EasyLaws
pub mod Examples
pub mod FormatLaws
pub mod KeptLaws
pub mod Open
