pub mod Form
pub mod Queries
pub mod Rows
pub mod Fits
pub mod Merging
pub mod Numbering
pub mod Making
