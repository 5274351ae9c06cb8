pub mod SetLaws
pub mod PassLaws
pub mod KnownLaws
pub mod MapLaws
