pub mod Turns
pub mod Checked
