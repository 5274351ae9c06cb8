pub mod SharpLemmas
pub mod RangeLaws
