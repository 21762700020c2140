pub mod Script
pub mod Promised
