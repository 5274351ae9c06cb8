pub mod SumLemmas
pub mod TotalLemmas
