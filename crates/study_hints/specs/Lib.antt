-- In reading order.
pub mod Words
pub mod Values
pub mod Hints
