pub mod Format
pub mod Calls
pub mod Saved
pub mod Tidy
pub mod Old
