pub mod RuleLists
pub mod Finding
