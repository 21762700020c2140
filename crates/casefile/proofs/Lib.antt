pub mod Gathering
pub mod Midway
pub mod Whole
pub mod Cases
pub mod Loading
