pub mod Boards
pub mod Conditions
pub mod Evaluations
pub mod Laws
pub mod Meanings
pub mod Walk
