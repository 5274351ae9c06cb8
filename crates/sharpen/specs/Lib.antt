-- In reading order.
pub mod Marks
