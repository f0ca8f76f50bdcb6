pub mod PublishLaws
pub mod Stores
