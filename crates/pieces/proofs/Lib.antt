pub mod Texts
pub mod Parts
pub mod Laws
