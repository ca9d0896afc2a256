pub mod Rules
pub mod Ended
pub mod Refusals
