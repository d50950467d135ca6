pub mod Agreeing
pub mod FalseCode
