pub mod Marks
pub mod Opening
pub mod Lent
