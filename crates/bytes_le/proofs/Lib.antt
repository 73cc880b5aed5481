pub mod Numbers
pub mod Stands
pub mod Laid
pub mod Fields
pub mod Only
