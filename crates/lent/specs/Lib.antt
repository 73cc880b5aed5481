pub mod Lent
pub mod Consumers
