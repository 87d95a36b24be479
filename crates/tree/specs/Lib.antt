pub mod Walks
pub mod Searches
pub mod Laws
pub mod Held
pub mod Names
pub mod Small
