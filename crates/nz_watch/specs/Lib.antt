pub mod Counts
pub mod Watching
pub mod Telling
pub mod MemWatches
