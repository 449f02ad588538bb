pub mod Cut
pub mod Then
pub mod Write
