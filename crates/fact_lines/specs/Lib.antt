pub mod Lines
pub mod Lent
