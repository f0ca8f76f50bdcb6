-- the shared terms
-- where our rules and upstream's agree
pub mod Visibility
-- what reachable stores meet
pub mod Born
pub mod BornCalls
pub mod Standing
-- reads
pub mod Reading
pub mod Told
pub mod Materialize
pub mod Validating
pub mod LockTest
-- slots and clock
pub mod Lifecycle
pub mod Clocks
pub mod Frames
-- publication
pub mod Publishes
pub mod PreparedWrites
-- vacuum
pub mod Chains
pub mod Vacuums
pub mod Protected
pub mod Safe
pub mod SharedTails
pub mod ApartWrites
pub mod PublishesAll
pub mod Horizons
pub mod Witnesses
-- the story of 001
pub mod Native
pub mod NativeVacuum
pub mod NativeRun
pub mod NativeReaders
pub mod NativeMet
-- not empty
pub mod Examples
