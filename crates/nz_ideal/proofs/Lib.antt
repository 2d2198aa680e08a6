pub mod Building
pub mod Ruling
pub mod Meeting
pub mod Closing
