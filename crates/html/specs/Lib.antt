pub mod Columns
pub mod Escapes
pub mod Facts
pub mod Grids
