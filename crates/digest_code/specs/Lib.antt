pub mod Code
pub mod Digits
pub mod Call
pub mod Bytes
pub mod Reading
