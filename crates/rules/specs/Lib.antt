pub mod Status
pub mod Records
pub mod Rules
pub mod Texts
