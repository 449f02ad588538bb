pub mod Table
pub mod Lowest
pub mod Copied
