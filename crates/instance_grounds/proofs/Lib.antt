pub mod StandLaws
pub mod GroundLaws
