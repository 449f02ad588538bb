pub mod Reports
pub mod Swaps
pub mod Batch
pub mod Slices
