pub mod Rounds
pub mod Earliest
