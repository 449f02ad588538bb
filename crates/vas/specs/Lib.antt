pub mod Vas
