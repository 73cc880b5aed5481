pub mod Groups
pub mod Batches
pub mod Whose
pub mod Steps
