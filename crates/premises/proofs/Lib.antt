pub mod SeveralLemmas
pub mod ToldLemmas
pub mod StepLemmas
pub mod ForcedLemmas
pub mod UseLemmas
pub mod HomeLemmas
pub mod StoryLemmas
