pub mod Claims
pub mod Sentences
pub mod Ends
pub mod Known
pub mod Forced
pub mod Lemmas
pub mod Homes
pub mod Laws
