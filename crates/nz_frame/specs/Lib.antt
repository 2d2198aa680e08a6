pub mod Frames
pub mod Constraining
pub mod DualCrowds
pub mod Elements
