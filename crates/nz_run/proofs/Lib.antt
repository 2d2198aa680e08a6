mod Answered
pub mod Composing
pub mod KindsFound
pub mod Pieces
pub mod Printing
pub mod Answering
mod ModeTexts
mod UnitTexts
mod ClosureTexts
pub mod PointTexts
