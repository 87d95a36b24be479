pub mod Lines
pub mod Occurrences
pub mod Parting
pub mod Refusals
pub mod Verdicts
