pub mod Every
pub mod Table
pub mod Bytes
