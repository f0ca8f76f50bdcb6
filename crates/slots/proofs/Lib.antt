pub mod ChainLaws
