pub mod Texts
pub mod Looks
