pub mod Cases
pub mod Counts
pub mod Recovers
