pub mod Opening
pub mod Joining
pub mod Numbers
pub mod Literals
pub mod Forming
pub mod Rowing
pub mod OfSchema
pub mod Counted
