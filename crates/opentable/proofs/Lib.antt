pub mod Arrays
pub mod Given
pub mod Words
pub mod Laws
pub mod Edits
pub mod Rows
pub mod Orderly
