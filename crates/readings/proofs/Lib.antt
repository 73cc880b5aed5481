pub mod Loops
pub mod Words
pub mod Answers
