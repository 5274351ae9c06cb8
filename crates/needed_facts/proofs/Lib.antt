pub mod TestLemmas
pub mod RestLemmas
