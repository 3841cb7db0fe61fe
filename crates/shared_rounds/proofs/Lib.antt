pub mod Turning
pub mod Adding
pub mod Rounding
pub mod Booking
pub mod Counting
pub mod Again
