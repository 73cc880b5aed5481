pub mod Screens
pub mod Steps
