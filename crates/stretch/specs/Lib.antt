pub mod Stretch
pub mod Plain
