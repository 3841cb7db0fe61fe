pub mod Texts
pub mod Ending
pub mod Parts
pub mod Results
