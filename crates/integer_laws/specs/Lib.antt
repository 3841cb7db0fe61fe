pub mod Sorted
pub mod Claimed
pub mod Items
