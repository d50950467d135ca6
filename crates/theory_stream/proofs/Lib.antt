pub mod Cutting
pub mod ByRow
