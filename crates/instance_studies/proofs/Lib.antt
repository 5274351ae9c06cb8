pub mod NameLaws
pub mod StudyLaws
