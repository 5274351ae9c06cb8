-- What a file of clauses gives.
pub mod Given
