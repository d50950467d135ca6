pub mod CommonKey
pub mod Closed
pub mod ByteMessages
pub mod Calls
