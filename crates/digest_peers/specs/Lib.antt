pub mod Peers
pub mod Call
pub mod Kept
