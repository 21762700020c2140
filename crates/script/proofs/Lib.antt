pub mod Places
pub mod Fields
pub mod Lines
pub mod Numerals
pub mod Reading
pub mod Taking
pub mod Cases
