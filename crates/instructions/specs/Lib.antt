pub mod Instruction
