pub mod Bagged
mod Fronts
