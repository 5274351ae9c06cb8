pub mod RightLemmas
pub mod EscapeLemmas
pub mod NameLemmas
pub mod NameReading
