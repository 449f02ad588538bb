pub mod Tab
pub mod RingRead
pub mod RingWrite
pub mod RingMove
pub mod Writing
pub mod Matching
pub mod Moving
pub mod Copying
