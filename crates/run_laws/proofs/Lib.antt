pub mod Folders
pub mod Deciding
pub mod Generators
pub mod Ends
pub mod Runs
