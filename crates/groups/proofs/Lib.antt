pub mod Shapes
pub mod Writing
pub mod Reading
pub mod Codes
