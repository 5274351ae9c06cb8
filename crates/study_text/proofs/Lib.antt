pub mod TextLemmas
pub mod CountLemmas
