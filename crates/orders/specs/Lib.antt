pub mod Bags
pub mod Rows
pub mod Drains
pub mod Held
