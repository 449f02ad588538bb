pub mod Entry
pub mod Drop
pub mod Latest
pub mod Rules
