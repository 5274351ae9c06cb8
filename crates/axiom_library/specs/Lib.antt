pub mod Library
pub mod Laws
