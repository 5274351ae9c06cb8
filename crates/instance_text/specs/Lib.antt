-- In reading order.
pub mod Bodies
pub mod Said
