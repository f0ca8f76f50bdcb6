pub mod Marks
pub mod Sweep
pub mod FindLaws
pub mod Listing
