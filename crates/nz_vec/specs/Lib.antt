pub mod Combinations
pub mod Comparisons
pub mod Conditions
pub mod Primitives
pub mod Sums
pub mod Texts
