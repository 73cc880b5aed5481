pub mod Laws
pub mod Jobs
pub mod Calls
pub mod Whose
pub mod Only
pub mod InOrder
