pub mod Bindings
pub mod Steps
