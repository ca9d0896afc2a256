-- `Words`: the turns, and six words as one block. `Message`: what is hashed, as it is laid. `Laws`: how long a key is, and that it is
-- bytes.
mod Words
mod Message
pub mod Laws
