-- In reading order.
pub mod Examples
