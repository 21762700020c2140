pub mod Placed
pub mod Pools
pub mod Bars
pub mod Lying
pub mod Refusals
pub mod Reasons
pub mod Gathers
pub mod Loops
