pub mod Rescue
