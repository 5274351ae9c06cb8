-- In reading order.
pub mod Closed
pub mod Laws
