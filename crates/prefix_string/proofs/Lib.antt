pub mod Bounds
pub mod Reading
pub mod RoundTrip
pub mod Rows
