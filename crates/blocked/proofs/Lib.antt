pub mod Lists
pub mod First
pub mod Searching
pub mod Counting
pub mod Blocking
pub mod Keeping
pub mod Blocked
