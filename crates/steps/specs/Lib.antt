pub mod Stream
pub mod Steps
pub mod Ecb
pub mod Chained
pub mod Needed
pub mod Feeding
