pub mod Crossings
pub mod Cuts
pub mod Descriptions
pub mod Measures
pub mod Shared
pub mod Words
pub mod Rays
