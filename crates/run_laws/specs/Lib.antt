pub mod Files
pub mod Deciding
pub mod Ends
