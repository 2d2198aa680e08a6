pub mod ListLemmas
pub mod SignLemmas
pub mod StepLemmas
pub mod AnswerLemmas
pub mod RangeLemmas
pub mod ColumnLemmas
