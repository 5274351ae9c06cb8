pub mod ElementLemmas
pub mod KeptLemmas
pub mod FirstLemmas
pub mod FoundLaws
pub mod GainLaws
pub mod KellyLaws
