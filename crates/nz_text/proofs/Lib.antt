pub mod Gaps
pub mod Spots
pub mod Stepping
pub mod Scanning
pub mod OneStep
