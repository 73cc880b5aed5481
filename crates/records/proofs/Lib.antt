pub mod Lies
pub mod Only
