pub mod Steps
pub mod Moving
pub mod Putting
pub mod Dropping
pub mod Removing
pub mod Laws
