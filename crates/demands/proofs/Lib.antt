pub mod Foreman
pub mod Useless
