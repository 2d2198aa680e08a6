pub mod Cells
pub mod Steps
pub mod Corners
pub mod Listing
pub mod Placed
pub mod Passing
pub mod Placing
