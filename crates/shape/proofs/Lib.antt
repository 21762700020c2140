pub mod Runs
pub mod Elim
pub mod Laws
pub mod Stage
