pub mod Added
pub mod Cases
pub mod Digits
pub mod Lengths
pub mod Rests
