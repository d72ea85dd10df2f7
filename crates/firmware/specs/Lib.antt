pub mod Calls
pub mod Examples
pub mod FromFirmware
pub mod Inside
pub mod Lists
pub mod Made
