pub mod Settle
pub mod Steps
