pub mod Apart
pub mod PartialSum
pub mod Turns
