pub mod Shape
pub mod Calls
pub mod Reading
