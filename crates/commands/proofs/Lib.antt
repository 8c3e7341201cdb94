mod Taking
mod Members
mod Naming
mod Whole
pub mod Unique
