pub mod Tab
pub mod Ring
