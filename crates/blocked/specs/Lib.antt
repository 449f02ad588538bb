pub mod Search
pub mod Waiting
