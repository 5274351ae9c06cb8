pub mod LastLemmas
pub mod NeedLemmas
