pub mod RowText
pub mod Packed
pub mod Starts
pub mod Writer
