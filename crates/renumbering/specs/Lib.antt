-- In reading order.
pub mod Renumbered
pub mod Laws
