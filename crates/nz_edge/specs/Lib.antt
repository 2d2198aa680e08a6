pub mod Folders
pub mod Answers
pub mod Calls
pub mod Memory
pub mod Places
