pub mod TableLineLemmas
pub mod TakingLemmas
pub mod CheckerLemmas
pub mod WitnessLineLemmas
pub mod StoryLineLemmas
pub mod AnswerLemmas
