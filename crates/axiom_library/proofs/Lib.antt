pub mod Trees
pub mod Writing
pub mod Reading
pub mod Entries
