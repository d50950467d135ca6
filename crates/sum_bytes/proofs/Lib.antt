pub mod Sizes
pub mod Closing
pub mod Words
pub mod Blocks
pub mod FromBytes
