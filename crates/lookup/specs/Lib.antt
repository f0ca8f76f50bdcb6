pub mod RowLaws
pub mod LookupRest
pub mod SearchLaws
pub mod CallLaws
