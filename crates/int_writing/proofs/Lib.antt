pub mod Powers
pub mod Writers
pub mod Writing
