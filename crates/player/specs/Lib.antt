pub mod Sizes
pub mod Zeroed
pub mod Turns
pub mod Batches
pub mod Runs
pub mod Written
pub mod OneRun
