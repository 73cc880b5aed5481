pub mod Jobs
pub mod Claims
pub mod Cases
pub mod Desk
