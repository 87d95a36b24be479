pub mod Advance
pub mod Backward
pub mod Names
pub mod Turns
