pub mod RowLemmas
pub mod NormalLemmas
pub mod SupportLemmas
pub mod ConeLemmas
