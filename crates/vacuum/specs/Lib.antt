pub mod Sweeping
pub mod Rest
