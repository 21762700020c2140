pub mod Reading
pub mod Shapes
pub mod Judging
pub mod Changes
pub mod Right
pub mod Keeping
