pub mod Rows
pub mod Rounds
pub mod Lent
pub mod Log
