pub mod Tables
pub mod Faults
pub mod Hall
pub mod Runs
pub mod Texts
