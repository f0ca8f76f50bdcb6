pub mod Triples
pub mod Steps
