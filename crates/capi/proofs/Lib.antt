-- `Sizes`: every size is small enough to cross. `Ended`: how a call ends. `Told`: what C reads is what the call gave.
mod Sizes
mod Ended
pub mod Told
