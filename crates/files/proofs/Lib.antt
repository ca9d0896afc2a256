-- `Units`: a unit and its place; the units' bytes are the file's own. `Laws`: a law for each way out of opening the files. `Found`: those
-- where a file is missing.
pub mod Units
pub mod Laws
mod Found
