pub mod CitedLemmas
pub mod TakenLemmas
pub mod StoryLemmas
pub mod MarkLemmas
pub mod FailingLemmas
pub mod SharpCheckerLemmas
