pub mod Held
pub mod Items
pub mod Placing
pub mod Promised
