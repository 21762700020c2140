pub mod Answers
pub mod Items
pub mod Steps
