pub mod Lists
pub mod Judged
pub mod Steps
