pub mod OrderLaws
pub mod LeavingLaws
pub mod FoundLaws
