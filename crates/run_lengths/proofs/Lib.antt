pub mod Laws
pub mod Largest
pub mod Row
