pub mod Sights
pub mod LookLaws
pub mod CellReads
