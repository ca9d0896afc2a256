pub mod Lock
pub mod Verifier
pub mod Verdict
