pub mod Offered
pub mod Steps
