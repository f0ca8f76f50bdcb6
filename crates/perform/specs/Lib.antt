pub mod Perform
pub mod Counted
pub mod Laws
pub mod NeverFull
