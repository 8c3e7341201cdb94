pub mod Ports
pub mod Cabled
pub mod Hall
pub mod Examples
