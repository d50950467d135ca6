pub mod Digest
pub mod Settings
pub mod Claims
pub mod Corollaries
pub mod TightPair
