pub mod AppendixA
pub mod Arrays
pub mod Static
