pub mod Comparing
pub mod Flexible
pub mod Mapped
pub mod Orders
pub mod Packing
pub mod Starts
pub mod Texts
pub mod Widths
