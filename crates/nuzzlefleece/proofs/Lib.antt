pub mod Fits
pub mod Only
pub mod Seconds
pub mod Back
pub mod AsRead
pub mod Entered
pub mod Tidied
