pub mod Groups
pub mod Reading
pub mod Arguments
pub mod Laws
pub mod Widths
