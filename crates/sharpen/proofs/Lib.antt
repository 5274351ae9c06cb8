pub mod ToldLaws
pub mod MarkLaws
pub mod SharpenedLaws
