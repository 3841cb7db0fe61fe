pub mod Closing
pub mod Shared
pub mod Closed
