pub mod Made
pub mod Search
