pub mod Steps
pub mod Chains
pub mod Tables
pub mod Ranking
pub mod Ordered
pub mod Bounds
pub mod OnePass
pub mod Parts
