pub mod Orderly
pub mod Order
pub mod States
pub mod Levels
pub mod Ranks
pub mod Passing
