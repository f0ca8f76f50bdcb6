pub mod BeginLaws
pub mod CreateLaws
