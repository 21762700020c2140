pub mod Placing
pub mod Promised
