pub mod Bounds
pub mod Table
pub mod Drop
pub mod Section
pub mod Insert
pub mod Report
