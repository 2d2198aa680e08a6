pub mod Elimination
pub mod Pointed
