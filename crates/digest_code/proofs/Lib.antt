pub mod Digits
pub mod Reading
pub mod Passing
pub mod Valid
