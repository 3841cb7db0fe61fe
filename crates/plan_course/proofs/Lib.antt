pub mod Numbers
pub mod Standing
pub mod Growing
pub mod Accessing
