pub mod Degrees
pub mod Positivities
pub mod Ranks
pub mod Elements
pub mod Levels
