pub mod LexemeKinds
pub mod Fronts
pub mod Expected
