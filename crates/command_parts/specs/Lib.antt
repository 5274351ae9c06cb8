-- In reading order.
pub mod Answers
pub mod Answered
pub mod Opened
pub mod GivenProof
