pub mod SetLaws
pub mod OrderLaws
pub mod TidyLaws
pub mod CountLaws
pub mod AskLaws
