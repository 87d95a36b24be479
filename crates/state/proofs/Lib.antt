pub mod Tops
pub mod Backward
pub mod Ends
pub mod Firings
pub mod Ordered
pub mod Places
pub mod Runs
pub mod Same
