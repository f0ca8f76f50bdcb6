pub mod CommitRest
pub mod AbortRest
