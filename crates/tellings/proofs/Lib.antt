pub mod OutcomeLaws
pub mod WorkedExamples
pub mod NamerLemmas
pub mod ForcedLaws
