pub mod Faults
pub mod Replies
pub mod Texts
pub mod Halls
pub mod Answers
pub mod Transcript
