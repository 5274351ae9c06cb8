pub mod NamedLaws
pub mod AllInstances
