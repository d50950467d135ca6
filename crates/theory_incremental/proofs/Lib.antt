pub mod Change
pub mod Edited
pub mod OneEdit
pub mod Edits
pub mod Worked
pub mod ByRow
