pub mod Causes
pub mod Classes
pub mod Steps
pub mod Sums
pub mod Walks
