pub mod CodeLaws
pub mod Examples
pub mod FifoLaws
pub mod NextLaws
pub mod RefusalLaws
pub mod StepLaws
pub mod TableLaws
