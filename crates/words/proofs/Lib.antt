pub mod Unique
mod Cutting
mod Counting
mod Digits
