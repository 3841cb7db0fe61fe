pub mod AnySource
pub mod Lanes
