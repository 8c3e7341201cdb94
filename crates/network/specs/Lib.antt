pub mod Cables
pub mod Ways
pub mod Turns
pub mod Toil
