pub mod Pieces
pub mod Lines
pub mod Words
pub mod Numerals
pub mod Steps
