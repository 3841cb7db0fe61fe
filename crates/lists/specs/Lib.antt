pub mod Digits
pub mod Hash
