-- In reading order.
pub mod Stands
pub mod Taken
pub mod Answers
