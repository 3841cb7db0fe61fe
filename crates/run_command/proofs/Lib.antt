pub mod Fits
pub mod Sorted
pub mod RightDecisions
pub mod Writing
pub mod Results
