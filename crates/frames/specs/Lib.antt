pub mod Faults
pub mod Head
pub mod Items
pub mod Reading
pub mod Record
pub mod Stream
