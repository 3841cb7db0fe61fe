pub mod Cutting
pub mod Batches
pub mod Reading
