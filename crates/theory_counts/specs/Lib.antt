pub mod Words
pub mod Count
pub mod Tests
pub mod Largest
