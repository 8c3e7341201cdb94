pub mod Least
pub mod Statuses
