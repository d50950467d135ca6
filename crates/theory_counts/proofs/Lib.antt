pub mod Sums
pub mod Congruent
pub mod Rows
pub mod Fits
pub mod Tests
