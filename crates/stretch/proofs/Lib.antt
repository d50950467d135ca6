-- Laws that several proofs cite, and the theorems.
pub mod Rows
pub mod Loads
