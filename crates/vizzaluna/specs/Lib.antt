pub mod Seen
pub mod SeenLaws
pub mod Constants
pub mod Fifteen
