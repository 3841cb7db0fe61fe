pub mod Deciding
pub mod Ends
