pub mod CommitLaws
pub mod Loops
