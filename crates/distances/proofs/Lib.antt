pub mod Law
pub mod Rows
