pub mod PlaceLemmas
pub mod StoryLemmas
mod ReasonLemmas
