-- In reading order.
pub mod Words
pub mod Headings
pub mod Theorem
pub mod Witnesses
pub mod FileNames
pub mod Pages
pub mod Told
pub mod Laws
