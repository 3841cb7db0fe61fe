pub mod Lent
pub mod Branches
pub mod Resting
pub mod Trimmed
pub mod Arranged
pub mod Passes
