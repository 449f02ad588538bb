pub mod Flooring
pub mod Noting
pub mod Moving
pub mod Floors
pub mod Using
pub mod Sections
