pub mod Whole
pub mod Floor
pub mod Nearest
pub mod Parts
pub mod Range
pub mod Rounding
