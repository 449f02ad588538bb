pub mod Starting
pub mod Copying
pub mod Placing
pub mod Stepping
pub mod Lines
pub mod Going
