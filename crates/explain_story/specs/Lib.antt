-- What is replied.
pub mod Replied
