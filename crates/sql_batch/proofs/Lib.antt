pub mod Queries
pub mod Answering
pub mod Unique
pub mod Single
