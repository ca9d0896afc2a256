-- `Laws`: what some three files open to lies within the output.
pub mod Laws
