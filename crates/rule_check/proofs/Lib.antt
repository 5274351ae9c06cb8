pub mod PieceLemmas
pub mod CheckLemmas
pub mod BlockLemmas
