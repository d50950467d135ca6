pub mod Summable
pub mod Changes
pub mod Each
pub mod Orders
