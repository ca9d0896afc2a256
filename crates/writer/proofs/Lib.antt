-- `Laws`: what the writer accepts, and its ways out. `Back`: what a stream written here gives back. `Laid`: the parts that the functions
-- lay one after the other are those of the definitions.
pub mod Laws
pub mod Back
mod Laid
