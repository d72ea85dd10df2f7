pub mod Asked
pub mod BlockCut
pub mod BlockExamples
pub mod BlockIsCalls
pub mod BlockReads
pub mod BlockRefusals
pub mod BlockWrites
pub mod Made
