pub mod Laws
pub mod Row
pub mod Calls
