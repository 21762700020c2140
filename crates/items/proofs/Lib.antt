pub mod Taken
pub mod Steps
