pub mod Methods
pub mod Branching
pub mod Sizes
pub mod Sorting
pub mod Fitting
pub mod Trying
pub mod Ending
pub mod Concluding
