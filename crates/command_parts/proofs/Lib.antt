-- In proof order.
pub mod AnswerLemmas
pub mod OpenLemmas
pub mod ProofTextLemmas
pub mod StudyLemmas
pub mod PairLemmas
