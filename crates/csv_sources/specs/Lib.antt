pub mod DataFile
pub mod Folder
pub mod Loading
pub mod Plain
pub mod Records
