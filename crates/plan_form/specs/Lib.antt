pub mod Fitting
pub mod Printing
pub mod Grammar
pub mod Faults
pub mod ByLines
pub mod Reading
pub mod Judging
