pub mod Fewer
pub mod Alike
