pub mod Cases
pub mod Fits
pub mod Laws
pub mod Lines
pub mod Loaded
pub mod Longest
