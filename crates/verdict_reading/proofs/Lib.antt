-- In proof order.
pub mod CollectLemmas
pub mod SharpCollectLemmas
pub mod TextLemmas
pub mod LineLemmas
pub mod EndLemmas
pub mod ReadingLemmas
