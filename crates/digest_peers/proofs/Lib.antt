pub mod EndToEnd
pub mod Valid
pub mod Kept
