pub mod Items
pub mod Steps
