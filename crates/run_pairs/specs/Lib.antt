pub mod Values
pub mod Number
