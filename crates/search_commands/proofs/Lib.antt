-- In proof order.
mod ClauseLemmas
mod DecideLemmas
mod ProofLemmas
pub mod SampleLemmas
mod AdoptionLemmas
mod SharpenLemmas
