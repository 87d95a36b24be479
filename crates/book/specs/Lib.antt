pub mod Claims
pub mod Endings
pub mod Examples
pub mod Faults
pub mod Mentions
pub mod Predicates
pub mod Reading
