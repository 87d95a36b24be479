pub mod Changes
pub mod Histories
pub mod Lists
pub mod Orders
pub mod Stacks
pub mod States
pub mod Stores
pub mod Undoing
