pub mod SharpPages
