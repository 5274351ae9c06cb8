-- In reading order.
pub mod Given
pub mod Told
pub mod Refused
