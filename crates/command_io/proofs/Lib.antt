pub mod SinkTakes
pub mod FileTexts
pub mod Delivering
pub mod Lines
pub mod Later
pub mod Short
pub mod Summaries
