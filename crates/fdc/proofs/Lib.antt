pub mod AnswerLaws
pub mod BeginLaws
pub mod DmaLaws
pub mod Open
pub mod PadLaws
pub mod StandLaws
pub mod ValidLaws
