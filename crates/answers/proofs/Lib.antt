pub mod Validation
pub mod Refused
pub mod Rows
pub mod States
