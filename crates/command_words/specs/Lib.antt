pub mod Table
pub mod Splits
pub mod Words
pub mod Cuts
pub mod Arguments
pub mod Usage
