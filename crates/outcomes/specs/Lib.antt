pub mod Frames
pub mod Places
pub mod Rows
pub mod OutcomeBits
pub mod Laws
