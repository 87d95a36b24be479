pub mod Bytes
pub mod Faults
pub mod Lex
pub mod Marks
pub mod Names
