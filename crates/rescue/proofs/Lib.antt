-- `Recovered`: what is recovered of so many bytes, over any unit. `Laws`: a law for each way out of a rescue. `Parts`: what parts of one
-- stream give. `Written`: what the code leaves.
pub mod Recovered
pub mod Laws
pub mod Parts
mod Written
