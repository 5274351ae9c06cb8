pub mod Names
pub mod Named
pub mod Entries
pub mod Rules
