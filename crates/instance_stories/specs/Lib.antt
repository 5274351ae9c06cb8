-- In reading order.
pub mod Codes
pub mod Derived
pub mod Named
pub mod Laws
