pub mod Arenas
pub mod CommitLaws
