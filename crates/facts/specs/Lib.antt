pub mod Views
pub mod Texts
