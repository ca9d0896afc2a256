pub mod Aes
