-- In reading order.
pub mod Page
pub mod Story
pub mod Instance
pub mod Rules
pub mod Cores
pub mod Look
pub mod Lawful
pub mod Call
pub mod Laws
pub mod Completeness
pub mod Written
