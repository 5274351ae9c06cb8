pub mod PageLemmas
pub mod PourLemmas
pub mod LoopLemmas
pub mod FinishLemmas
