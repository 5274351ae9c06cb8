-- In reading order.
pub mod Cutting
pub mod Lines
pub mod Pieces
pub mod Files
