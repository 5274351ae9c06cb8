pub mod PlaceTables
pub mod Growth
pub mod FrameRows
pub mod BitLaws
pub mod SmallFrames
pub mod OutcomeTexts
pub mod OutcomeCounts
