pub mod Page
pub mod Spelled
