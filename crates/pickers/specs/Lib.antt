pub mod Choices
pub mod Seeking
