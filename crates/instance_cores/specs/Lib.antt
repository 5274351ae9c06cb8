-- In reading order.
pub mod Cores
