pub mod Lines
pub mod Fields
pub mod Words
pub mod Calls
pub mod Printed
pub mod Longest
