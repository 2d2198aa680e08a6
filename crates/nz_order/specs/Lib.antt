pub mod Boxes
pub mod Picks
pub mod Totals
pub mod Reduction
pub mod Lattices
pub mod Candidates
pub mod Sides
