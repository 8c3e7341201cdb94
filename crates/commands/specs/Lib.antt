pub mod Misreads
pub mod Sets
pub mod Fields
pub mod Commands
pub mod Steps
