pub mod Room
pub mod HeadLaws
