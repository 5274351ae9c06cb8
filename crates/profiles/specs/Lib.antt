pub mod Distinct
pub mod Weights
