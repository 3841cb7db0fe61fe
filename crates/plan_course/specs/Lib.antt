pub mod Courses
pub mod Turns
