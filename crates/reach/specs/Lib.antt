pub mod Reach
pub mod Rows
