pub mod Growing
pub mod Refuting
pub mod Reading
