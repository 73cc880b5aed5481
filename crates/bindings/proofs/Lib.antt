pub mod Bytes
pub mod Count
pub mod Filled
pub mod Listed
pub mod Only
pub mod Useless
