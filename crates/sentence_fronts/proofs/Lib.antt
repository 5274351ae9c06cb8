pub mod Words
pub mod Moves
pub mod Backs
pub mod Hopes
pub mod Stacks
pub mod Places
pub mod Walking
