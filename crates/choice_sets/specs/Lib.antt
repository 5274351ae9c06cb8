pub mod Gains
pub mod Laws
