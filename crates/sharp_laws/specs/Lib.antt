-- In reading order.
pub mod Laws
