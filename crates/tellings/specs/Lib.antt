pub mod Laws
pub mod Tellings
