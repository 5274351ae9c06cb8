-- In reading order.
pub mod Replies
