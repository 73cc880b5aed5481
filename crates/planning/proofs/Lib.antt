pub mod Laws
pub mod Answers
pub mod Only
pub mod Found
