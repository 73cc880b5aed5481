pub mod Lateness
pub mod Steps
