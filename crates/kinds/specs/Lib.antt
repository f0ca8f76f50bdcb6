pub mod Versions
pub mod Visible
pub mod WorkedNumbers
pub mod ReadAnswer
pub mod Answer
pub mod Verdict
pub mod Results
