pub mod Disk
pub mod Examples
pub mod Layout
pub mod Lent
pub mod Mark
pub mod Slot
pub mod Sound
