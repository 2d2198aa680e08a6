mod SecondLemmas
mod DualLemmas
mod NormalForms
pub mod PlacingCoordinates
mod FaceLemmas
pub mod LoopLemmas
mod KeyLemmas
pub mod GeneratorLemmas
mod CandidateLemmas
pub mod ElementLemmas
pub mod RunLemmas
mod NumberCauses
mod FaceMoves
pub mod RangeLemmas
