pub mod Words
pub mod First
pub mod Apart
pub mod Led
pub mod Strong
