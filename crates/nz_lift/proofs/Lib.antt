pub mod EndLemmas
pub mod IntervalLemmas
pub mod FollowLemmas
pub mod LiftLemmas
pub mod FormLemmas
pub mod DirectionLemmas
pub mod PointLemmas
pub mod SystemLemmas
