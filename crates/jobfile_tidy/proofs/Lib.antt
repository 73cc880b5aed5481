mod Laws
pub mod Only
pub mod Forwards
