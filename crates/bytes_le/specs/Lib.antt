pub mod Little
pub mod Steps
