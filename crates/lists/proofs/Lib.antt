pub mod TestLaws
pub mod PlaceLaws
pub mod JoinLaws
pub mod OptionLaws
pub mod TextLaws
pub mod OrderLaws
pub mod NumberLaws
pub mod Members
