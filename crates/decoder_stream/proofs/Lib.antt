pub mod Reading
pub mod Receiving
