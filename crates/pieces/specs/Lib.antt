pub mod Ends
pub mod Texts
pub mod Parts
pub mod Held
pub mod Laws
