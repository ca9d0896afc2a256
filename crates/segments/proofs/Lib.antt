-- `Vectors`: what a starting vector is, and that it is sixteen bytes.
pub mod Vectors
