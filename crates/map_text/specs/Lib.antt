pub mod MapText
