pub mod Version
pub mod Reading
pub mod Grammar
pub mod SchemaText
pub mod Printed
pub mod Printing
