pub mod StandLemmas
pub mod SaidLemmas
pub mod SentenceLemmas
pub mod PlaceLemmas
