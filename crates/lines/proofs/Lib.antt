pub mod Follows
pub mod Fits
pub mod Longest
pub mod Told
