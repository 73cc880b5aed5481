pub mod Lines
pub mod Lays
pub mod Letters
