pub mod Ascending
pub mod RowCounts
pub mod LastPlace
pub mod RowOrder
pub mod RowMembers
pub mod ClassOrder
pub mod Rounds
pub mod Logging
