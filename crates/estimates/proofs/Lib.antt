pub mod Laws
pub mod Walked
pub mod Only
pub mod Few
pub mod Gathered
