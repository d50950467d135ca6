pub mod Range
pub mod States
