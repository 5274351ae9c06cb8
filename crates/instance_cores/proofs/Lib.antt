pub mod CitingLaws
pub mod ReducingLaws
