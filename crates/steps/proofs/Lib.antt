pub mod Examples
pub mod Cases
pub mod Walks
pub mod Points
