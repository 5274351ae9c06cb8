pub mod BoardLemmas
pub mod BodyLemmas
pub mod ChainLemmas
pub mod ConditionLemmas
pub mod ExclusionLemmas
pub mod SortLemmas
pub mod WalkLemmas
