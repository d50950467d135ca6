pub mod Valid
pub mod Made
