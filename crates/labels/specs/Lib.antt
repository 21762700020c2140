pub mod Entries
pub mod Moved
pub mod Promised
pub mod Readings
