pub mod Fits
pub mod Causes
