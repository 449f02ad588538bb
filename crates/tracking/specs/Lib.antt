pub mod Uses
pub mod Queue
