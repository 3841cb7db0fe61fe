pub mod Help
pub mod Runs
pub mod Tasks
pub mod Complete
pub mod Statuses
pub mod Verified
pub mod Exact
pub mod Generators
