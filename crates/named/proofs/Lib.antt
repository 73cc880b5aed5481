pub mod Tests
pub mod Rows
pub mod Blocks
