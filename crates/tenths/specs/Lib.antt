pub mod Tenths
pub mod Bits
pub mod Rounding
