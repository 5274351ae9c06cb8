-- In reading order.
pub mod Parts
pub mod Collected
pub mod SharpCollected
pub mod Told
pub mod Readings
