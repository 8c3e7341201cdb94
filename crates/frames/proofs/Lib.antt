pub mod Bytes
pub mod Records
pub mod Streams
pub mod Fronts
pub mod Surveys
pub mod Totals
