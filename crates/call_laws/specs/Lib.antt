-- In reading order.
pub mod Laws
pub mod Rows
