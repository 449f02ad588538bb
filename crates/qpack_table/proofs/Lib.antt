pub mod Digits
pub mod Listing
pub mod Usable
