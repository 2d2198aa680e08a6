pub mod Growing
pub mod Drafting
pub mod Asking
pub mod Ruling
pub mod Sorting
pub mod Keeping
pub mod Kept
