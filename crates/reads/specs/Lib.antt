pub mod Found
pub mod OwnLaws
pub mod Sights
