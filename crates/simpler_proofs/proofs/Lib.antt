pub mod Entries
pub mod Named
pub mod Passing
pub mod Reordering
