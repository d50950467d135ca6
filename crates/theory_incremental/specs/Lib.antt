pub mod Edits
pub mod Claims
pub mod Worked
pub mod ByRow
