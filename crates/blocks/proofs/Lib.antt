-- `Aes`: AES is a step that undoes itself. `Loops`: a block over the end of a list.
pub mod Aes
mod Loops
