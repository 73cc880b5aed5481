pub mod Holes
pub mod Enough
pub mod Laws
