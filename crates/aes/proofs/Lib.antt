-- `Keys`: the three key sizes, and the laws that crates above cite. `Vectors`: the worked examples of FIPS 197.
pub mod Keys
pub mod Vectors
