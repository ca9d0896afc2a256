-- `Bounds`: every number is small enough to cross. `Laid`: parts laid one after the other are what the definitions say. `Lossless`: what
-- crosses can be read back.
pub mod Bounds
mod Laid
pub mod Lossless
