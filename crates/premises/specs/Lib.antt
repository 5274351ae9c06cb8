pub mod SoFar
pub mod Forcing
pub mod Checking
pub mod Told
pub mod Uses
