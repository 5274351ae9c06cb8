pub mod Marks
pub mod Covers
pub mod Lanes
