-- In reading order.
pub mod Places
pub mod Help
