pub mod Stores
pub mod Faults
pub mod LaneSteps
pub mod Works
pub mod Tables
pub mod Indexing
pub mod Crowding
pub mod RequestLogs
