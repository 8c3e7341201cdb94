pub mod Hall
pub mod Examples
