pub mod Lines
pub mod Tallies
pub mod Reporting
pub mod Linking
pub mod Fronts
