pub mod Printing
pub mod Lent
pub mod Grammar
pub mod Reading
pub mod Verdicts
