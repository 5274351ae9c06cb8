mod FoundNames
pub mod FromTheLast
