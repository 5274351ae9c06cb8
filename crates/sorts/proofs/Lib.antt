pub mod Answering
pub mod Arguments
pub mod Calls
pub mod ConstantLemmas
pub mod Depths
pub mod Levels
pub mod Sorting
pub mod Truths
