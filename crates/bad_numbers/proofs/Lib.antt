pub mod Sorted
pub mod Parts
pub mod Among
pub mod Picking
pub mod Received
