pub mod Form
pub mod Names
pub mod Reading
pub mod Writing
pub mod Told
pub mod Steps
