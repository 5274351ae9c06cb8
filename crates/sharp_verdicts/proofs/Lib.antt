pub mod WorkedExamples
pub mod DerivedLaws
pub mod InstanceLaws
