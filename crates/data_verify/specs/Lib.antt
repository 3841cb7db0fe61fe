pub mod Breaking
pub mod Telling
pub mod Unmet
pub mod Keys
pub mod Inclusion
pub mod Finding
pub mod Remaining
pub mod Settling
