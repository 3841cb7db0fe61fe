pub mod Naming
pub mod Attaching
pub mod Missing
pub mod Asking
pub mod Picked
pub mod Holding
pub mod Alike
pub mod Results
