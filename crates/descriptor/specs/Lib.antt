pub mod Info
pub mod LaidOut
