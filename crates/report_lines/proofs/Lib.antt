pub mod BallotLemmas
pub mod LineLemmas
pub mod LiteralLemmas
pub mod NameLemmas
pub mod PlaceLemmas
pub mod ReasonLemmas
pub mod ValueLemmas
pub mod WordLemmas
