-- In reading order.
pub mod Shares
pub mod LookText
