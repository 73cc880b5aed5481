pub mod Version
pub mod Files
