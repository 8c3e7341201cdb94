pub mod Beginning
pub mod CableLaw
pub mod Judging
pub mod Midway
pub mod Nearby
pub mod Rewiring
pub mod Running
pub mod Verdicts
