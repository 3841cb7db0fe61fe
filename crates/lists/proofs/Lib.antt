pub mod Booleans
pub mod Digits
pub mod Members
pub mod Orders
pub mod Places
