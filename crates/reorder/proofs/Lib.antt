pub mod Trace
pub mod Reorder
pub mod Runs
pub mod Queue
pub mod Commuting
pub mod Commuted
pub mod Leaving
pub mod Calls
pub mod Theorem
pub mod Later
mod Cases
