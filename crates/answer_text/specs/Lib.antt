-- In reading order.
pub mod Said
pub mod Gains
pub mod Laws
pub mod Claims
