pub mod Open
pub mod Rows
pub mod Steps
