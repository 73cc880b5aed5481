pub mod Tests
pub mod Faults
pub mod Starts
pub mod Only
