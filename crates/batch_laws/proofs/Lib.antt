pub mod Numbered
pub mod Ended
pub mod Answered
pub mod Together
