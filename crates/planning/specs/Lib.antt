pub mod Derived
pub mod Planning
