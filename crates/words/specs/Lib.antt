pub mod Sizes
pub mod Lists
pub mod Slots
pub mod WordLaws
