-- The lines of a library, and those of answers.
pub mod LineLemmas
