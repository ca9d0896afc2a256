-- `Laws`: a law for each way out of opening a stretch. `Laid`: what the code leaves.
pub mod Laws
mod Laid
