pub mod Known
pub mod HeldFileLemmas
