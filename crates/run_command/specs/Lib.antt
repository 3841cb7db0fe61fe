pub mod Deciding
pub mod Ends
pub mod Explained
pub mod World
