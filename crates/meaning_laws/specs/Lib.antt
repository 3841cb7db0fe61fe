pub mod Small
pub mod Staff
pub mod Trims
pub mod Rests
