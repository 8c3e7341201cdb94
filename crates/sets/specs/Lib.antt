pub mod Counts
pub mod Sets
pub mod Members
