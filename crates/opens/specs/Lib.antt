pub mod Gathered
pub mod OpenedAt
