pub mod Texts
pub mod Writer
