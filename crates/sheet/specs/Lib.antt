pub mod Frame
pub mod Scheme
pub mod Sheet
