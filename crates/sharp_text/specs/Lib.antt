pub mod Pieces
pub mod Conditions
pub mod Laws
