pub mod Entries
pub mod Stream
