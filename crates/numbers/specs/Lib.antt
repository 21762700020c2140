pub mod Numbers
pub mod Reader
