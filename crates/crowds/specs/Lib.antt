pub mod Crowds
pub mod Heaps
