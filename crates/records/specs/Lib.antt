pub mod Horizon
pub mod LeastLaws
pub mod StoreLaws
