-- In reading order.
pub mod CoreMaps
pub mod Asking
pub mod Laws
