pub mod Accumulation
pub mod Pairs
pub mod Suffices
