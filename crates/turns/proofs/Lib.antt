pub mod Turned
pub mod Leading
pub mod Laws
