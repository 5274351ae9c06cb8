-- In reading order.
pub mod Cited
pub mod SharpStands
pub mod SharpAnswers
