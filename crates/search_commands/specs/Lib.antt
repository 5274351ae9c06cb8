-- In reading order.
pub mod Found
pub mod Retold
