pub mod ReadRest
pub mod WriteRest
