-- In reading order.
pub mod Sets
pub mod Maps
pub mod Next
pub mod Counts
