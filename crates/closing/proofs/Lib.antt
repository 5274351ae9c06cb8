pub mod ClosedLaws
pub mod SentenceLaws
