pub mod Bounds
pub mod RoundTrip
