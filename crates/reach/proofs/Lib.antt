pub mod States
pub mod EDeletes
pub mod Rounds
pub mod Same
pub mod Only
pub mod Alike
pub mod Laws
pub mod Words
