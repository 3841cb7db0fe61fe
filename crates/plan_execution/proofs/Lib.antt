pub mod Before
pub mod Stepping
pub mod Coming
pub mod Starting
pub mod Finished
