-- the shared terms
pub mod Images
pub mod Seen
pub mod Transactions
-- where our rules and upstream's agree
pub mod Visibility
-- what reachable stores meet
pub mod Born
pub mod Standing
-- reads
pub mod ReadTerms
pub mod Reading
pub mod Told
pub mod Materialize
pub mod LockTest
-- slots and clock
pub mod LifecycleTerms
pub mod Frames
-- publication
pub mod Publication
-- vacuum
pub mod RetentionTerms
pub mod Chains
pub mod Protected
pub mod SharedTails
pub mod Horizons
pub mod Witnesses
-- the story of 001
pub mod Story
pub mod Native
pub mod NativeRun
pub mod NativeReaders
-- not empty
pub mod Examples
