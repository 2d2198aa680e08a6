pub mod Lifts
pub mod LiftNumbers
pub mod Directions
pub mod ShadowForms
pub mod LastEntries
pub mod Ends
pub mod SystemPoints
pub mod SystemRefusals
