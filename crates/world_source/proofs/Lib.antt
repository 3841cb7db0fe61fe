pub mod Numbers
pub mod Rounds
pub mod Rows
pub mod Attached
pub mod Sizes
