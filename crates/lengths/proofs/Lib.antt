-- `StreamSize`: a size in eight bytes, there and back. `Fillings`: how long a filling is, and which lengths a ciphertext may have. `Rules`:
-- what the rules 13 to 15 say of lengths.
pub mod StreamSize
pub mod Fillings
pub mod Rules
