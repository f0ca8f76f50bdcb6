-- The theory of the rules: what holds of every store that our calls lead to. Its theorems stand in Demand3.antt; nothing else here is
-- meant to be cited but the laws of cells and of cases.

-- stores and what is read back
pub mod Cases
pub mod SlotLaws
pub mod CellLaws
pub mod Shape
-- views of a memory, and the calls' effects on them
pub mod View
pub mod Bridge
-- the invariant, and each step that keeps it
pub mod Counting
pub mod Inv
pub mod Places
pub mod SlotSteps
pub mod Reslot
pub mod Publish
pub mod CommitView
pub mod Cells
pub mod Writes
pub mod Revalue
pub mod VacuumView
pub mod Locks
-- chains and reads
pub mod Chains
pub mod Reading
pub mod Recording
-- every call keeps what holds
pub mod Guard
pub mod Same
pub mod Good
pub mod BeginCall
pub mod CommitCall
pub mod AbortCall
pub mod WriteCall
pub mod ReadCall
pub mod LookupCall
pub mod VacuumCall
pub mod CreateCall
pub mod Steps
-- what follows
pub mod Never
pub mod ReadLaw
pub mod OnePlace
pub mod Facts
pub mod CommitRefused
pub mod Validated
pub mod Replaced
pub mod VacuumLaw
pub mod LookupLaw
pub mod NeverFull
pub mod Clock
pub mod Continuing
pub mod RecordsStay
pub mod Later
pub mod Extending
