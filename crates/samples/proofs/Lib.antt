pub mod Samples
pub mod NumberLemmas
pub mod Participation
