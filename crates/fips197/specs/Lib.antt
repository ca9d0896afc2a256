pub mod Field
pub mod Tables
pub mod Cipher
pub mod Products
pub mod Expansion
