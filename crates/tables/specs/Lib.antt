pub mod Tables
pub mod Steps
