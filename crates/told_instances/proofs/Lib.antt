pub mod ToldLaws
pub mod NumberLaws
