pub mod Ring
pub mod Plan
