-- In reading order.
pub mod Numbers
pub mod Texts
pub mod Lines
pub mod Report
pub mod Claims
pub mod Reading
pub mod Places
pub mod Faults
pub mod FirstFault
pub mod Judge
pub mod Words
pub mod Laws
