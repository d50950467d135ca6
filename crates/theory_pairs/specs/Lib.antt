pub mod Agree
pub mod Search
pub mod Found
