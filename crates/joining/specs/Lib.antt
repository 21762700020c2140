pub mod Pool
pub mod Places
pub mod Layout
