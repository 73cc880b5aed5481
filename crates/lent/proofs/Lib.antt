pub mod Laws
pub mod Consumers
