-- `Chains`: runs of blocks. `Padded`: the padded message and the hash's bytes. Crates above cite `Laws`, what every hash is, `Short`, the
-- hash of a message of one block, and `Unique`: that a hash's bytes are those of one state.
mod Chains
mod Padded
pub mod Laws
pub mod Short
pub mod Unique
