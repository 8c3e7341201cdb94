pub mod Faults
pub mod Station
pub mod Begin
pub mod Hear
pub mod Ready
pub mod Move
pub mod Tell
