pub mod DigitChanges
pub mod DigitPlaces
pub mod DistinctTexts
pub mod JoinLemmas
pub mod ProfileTexts
pub mod TableLemmas
pub mod TextLemmas
