pub mod Valid
pub mod Joined
pub mod Made
pub mod Pushes
