-- What a command over a study promises.
pub mod StudyReplies
