pub mod Weights
pub mod Slots
pub mod Sights
pub mod Telling
