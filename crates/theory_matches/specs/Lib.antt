pub mod Matches
pub mod Calls
