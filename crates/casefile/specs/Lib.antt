pub mod Case
pub mod Steps
pub mod Load
