pub mod Turns
pub mod Upto
pub mod Laws
pub mod Cases
pub mod Longest
