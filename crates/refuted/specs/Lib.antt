pub mod Cases
pub mod Exchange
pub mod Readings
pub mod Pinned
pub mod Wrong
pub mod Writing
pub mod Product
