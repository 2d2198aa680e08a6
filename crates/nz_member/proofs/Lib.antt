pub mod Multiples
pub mod Meetings
pub mod AmountLaws
pub mod MonoidLaws
pub mod PartsByValues
pub mod AmountSteps
pub mod MemberLists
