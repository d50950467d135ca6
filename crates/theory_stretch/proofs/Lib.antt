pub mod Fits
pub mod Loads
