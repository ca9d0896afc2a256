-- `Laws`: what an answer says of the rules, and what the rules say of the answer. `Endings`: what a call leaves. `Refusals`: that a refusal
-- is no answer 0. `Rows`: proofs one after the other.
pub mod Laws
pub mod Endings
pub mod Refusals
pub mod Rows
