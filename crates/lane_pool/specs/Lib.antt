pub mod Numbers
pub mod Core
pub mod Fields
pub mod Seats
pub mod TableCore
pub mod Work
pub mod Lanes
pub mod Places
