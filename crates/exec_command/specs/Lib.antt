pub mod Known
pub mod Ends
