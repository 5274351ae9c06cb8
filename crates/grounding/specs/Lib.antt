pub mod Distinct
pub mod Rising
pub mod Parts
pub mod Pieces
pub mod Kept
pub mod Facts
