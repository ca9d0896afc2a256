-- `Checked`: the stored hash, byte by byte. `Fields`: the fields of a verifier. `Laws`: a law for each way out of the verdict.
mod Checked
pub mod Fields
pub mod Laws
