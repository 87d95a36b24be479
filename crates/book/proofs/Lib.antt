pub mod Accepted
pub mod Adding
pub mod Examples
pub mod Numbering
pub mod Refused
pub mod Verdicts
