-- The theory of the rules: what holds of every store that our calls lead to. Its theorems stand in Demand3.antt; nothing else here is
-- meant to be cited but the laws of cells and of cases.

-- stores and what is read back
pub mod SlotLaws
pub mod CellLaws
pub mod Shape
-- views of a memory, and the calls' effects on them
pub mod View
pub mod Effects
pub mod Bridge
-- the invariant, and each step that keeps it
pub mod Counting
pub mod Inv
pub mod Places
pub mod SlotSteps
pub mod Reslot
pub mod Publish
pub mod CommitView
pub mod Cells
pub mod Writes
pub mod Revalue
pub mod Locks
-- chains and reads
pub mod Chains
pub mod Reading
pub mod Recording
-- every call keeps what holds
pub mod Guard
pub mod Same
pub mod Good
pub mod CreateCall
pub mod Steps
-- what follows
pub mod LookupLaw
