-- Laws that several proofs cite.
pub mod SeedArray
pub mod Below
