pub mod Answer
pub mod Table
pub mod Write
